-- What was found to differ.
use Rattle.std.specs.Prelude.{ℕ, string_len}
use Rattle.replay.specs.declared.findings.Findings.{Findings}

-- how many bytes the notes have
abbrev pub noted : Findings → ℕ
noted f = string_len f.text

-- What the public contracts of this crate say, on one page: each word with a sentence, passed on from where it is defined, and what
-- laws above say by them. Declares nothing. What serves proofs stands in the folder Lemmas.

-- A stretch holds a tree: a front of its message spells it; strictly, it is that tree's own frame.
pub use Rattle.postcard.specs.Frames.{Holds}
pub use Rattle.link.specs.Stream.{HoldsExactly}
-- The answers of a stream before its end is known, and of a whole one; what is begun of it behind its last sentinel.
pub use Rattle.link.specs.Stream.{Verdict, value, damaged, too_long, cut, Given, Answers, Begun, kept, over, begun, IsAnswer, begun_answers, cut_answers, ended, unfinished, pieces}
-- A receiver stands behind a stream, under its limit and sentinel; no stretch is begun; limit and sentinel stay.
pub use Rattle.link.specs.Receivers.{IsBehind, OnBegun, IsBetween, limit_of, sentinel_of, SameTerms, IsAt}
pub use Rattle.link.specs.Filled.{Filled, IsMessageOf}
pub use Rattle.link.specs.Decoding.{in_array, in_owner}
pub use Rattle.link.specs.Listening.{ReceiverFitsInMemory}
-- What a push behind a stream answers, and how long the answered stretch is; what the end of the stream adds.
pub use Rattle.link.specs.Pushes.{Answered, IsPush, IsLost, IsStretchOf, Matches, begun_length, finished, IsBegun}
pub use Rattle.link.specs.Lending.{StandsFurther, AnswersPush, TellsStretch, AnswersByForm, AnswersBy, StandsBy}
-- What a reader of messages says and owes, and a reader of fronts.
pub use Rattle.link.specs.Judged.{Judging, IsJudged, ReadsStretch, FrontLaws, front_laws, HoldsBy}
-- What is received of all that a reader gives, by how the reading ended; at its end, after a fault, out of memory.
pub use Rattle.link.specs.Listening.{IsReceivedBy, IsReceivedByOwned, ordinary, strictly, Receives, IsReceived, HasGiven, HasAnswered, HasBegun, EndsFor, IsFilled, IsUnmade, HasAllButLast, AnswersBeginProperly, KeepsAnswer}
-- What a hearer owes; what was handed on to it while a reader was read; and behind values that found no memory.
pub use Rattle.link.specs.Each.{HearerLaws, Handed, Adds, Listens, HearsOut, ListensTo, ListensOnce, ListensUntil, ListensOut, ListenerPlace, listener_place, Hearing, hearing, MayLackMemory, UsesFew, IsAsked, WasAsked, LastRead, BringsNone, HasReadNow, IsReceivedNow, last_call, uses_few, HeardAnyhow, heard_anyhow}
pub use Rattle.link.specs.Listening.{Hears, Loss, Recovers, EndsAtLoss}
-- What the documented loop over an accumulator gives, and reading in place.
pub use Rattle.link.specs.Gathering.{AccumulatorFitsInMemory, AreGatheredBy, AreLooped, AreThoseFor}
pub use Rattle.link.specs.InPlace.{ReadsNext, AnswersNext, KeptUnlessEnded}
-- What a run of sends leaves on a line, and what is to be told of it; a send by its answer; a session by its fates.
pub use Rattle.link.specs.Run.{Send, sent, written, session_line, line, told, completed, refused, broken, clean_after, IsFramed, framed, frame_bytes, IsSend, IsSession, IsRun, told_send, told_session, told_broken, Among}
pub use Rattle.link.specs.Senders.{HasSent, OnRefusal, sender_place, writer_of, clean_of, SenderPlace, IsSent, IsRefusal, UnlessRefusal}
pub use Rattle.link.specs.Fates.{SendsAll, AreSentFrom, new_sender, SenderFitsInMemory, IsSendOf, fate_of, IsCarried, clean_after_all, broke, brokens, Did, FewBroke}
pub use Rattle.link.specs.Framed.{framing_of, lent_as}
-- The frame of a message, which is the shortest one; the same for a sentinel; how long it is.
pub use Rattle.cobs.specs.Frames.{shortest_frame}
pub use Rattle.cobs.specs.Sentinel.{frame_for}
pub use Rattle.cobs.specs.FrameLaws.{IsWithinLengths}
-- What the laws of this crate say.
pub use Rattle.link.specs.Laws.{HasRoom, IsToldByLengths, IsReadInTurn, IsTold, Appends, HasOneAnswer, IsLocal, EndsBetween}
pub use Rattle.link.specs.Roads.{values_of, joined}

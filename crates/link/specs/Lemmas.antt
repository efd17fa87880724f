-- What serves the proofs of several crates, and no contract cites.
pub mod AnswerLaws
pub mod CourseLaws
pub mod FeedLaws
pub mod HeardLaws
pub mod MaskLaws
pub mod SendLaws
pub mod ValueLaws
pub mod RunLaws
pub mod RoadLaws
pub mod Lengths
pub mod Givens
pub mod Facts
pub mod Pieces

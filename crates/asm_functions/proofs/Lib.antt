-- Lemmas, a file for each subject.
mod SeenLemmas
mod ItemLemmas
mod LabelLemmas
mod FrontLemmas
mod FollowingLaws
mod StandingLemmas
mod StandingLaws
mod OrderLemmas
mod JoinedLemmas
mod JoinedLaws
mod MovedLaws
mod Worked

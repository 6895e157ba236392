pub mod CutLemmas
pub mod DataLemmas
pub mod FrontLemmas
pub mod HeadLemmas
pub mod Joined
pub mod RecordLemmas
pub mod StartLemmas
pub mod UndoLemmas

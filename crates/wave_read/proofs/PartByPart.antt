pub mod NoneRead
pub mod OneMore
pub mod ReadByKind
pub mod FrameSteps
pub mod NodeTypes

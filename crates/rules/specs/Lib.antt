pub mod HomeAnswers
pub mod Laws
pub mod NamedAnswers
pub mod NowAnswers
pub mod WarpAnswers
pub mod HomeLaws

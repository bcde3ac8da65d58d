-- Request six: six slips under one number.
pub mod TheAnswerBefore
pub mod TheSixSlips
pub mod Examples

-- Request three: which digit of an exponent is wrong.
pub mod TheWrongDigit
pub mod Examples
pub mod OtherNumbers
pub mod TheAnswerBefore

-- ISO timings: what is written reads back.
pub mod ReadsBack

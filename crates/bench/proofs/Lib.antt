mod Calls
mod Rest
mod Traces
mod Example
mod Answers

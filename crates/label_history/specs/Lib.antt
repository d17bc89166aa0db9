-- Histories with label writes among the calls, and what a judgement after one tells.
pub mod Events

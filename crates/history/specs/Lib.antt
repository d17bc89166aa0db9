-- What a list of calls after a lay tells of every slot and every byte.
pub mod History

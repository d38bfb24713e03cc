pub mod WriterState

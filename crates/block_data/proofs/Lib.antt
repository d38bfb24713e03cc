pub mod RunsOfBytes

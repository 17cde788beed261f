pub mod Pilfer

-- What a fabric keeps and shows, and which account it represents.
pub mod Fabric
pub mod Processors

mod Unnamed
mod OrderIs
mod TokensAre
mod Counts
mod FormsAre
mod TextForms
mod NamesAre
mod Known
mod Types
mod InstancesAre
pub mod TextsAre

pub mod FormsAre

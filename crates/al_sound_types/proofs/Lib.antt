pub mod SoundIs

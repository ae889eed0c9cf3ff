pub mod Store
pub mod StoreExamples

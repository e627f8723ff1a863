pub mod ImageLemmas
pub mod ShelfLemmas
pub mod StopLemmas
pub mod StoreLemmas

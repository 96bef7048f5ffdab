mod Fields
mod Built

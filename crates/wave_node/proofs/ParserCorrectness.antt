pub mod FlagsSorted

pub mod OrderedFlags

pub mod UntilLast

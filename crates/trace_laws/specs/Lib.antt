pub mod PlainTrace

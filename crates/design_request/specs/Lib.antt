-- The design request. Request: its check, and the design of each kind. View: the code's type read as its record.
pub mod Request
pub mod View

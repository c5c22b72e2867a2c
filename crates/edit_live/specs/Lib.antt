pub mod Spans
pub mod SpanLaws
pub mod Gaps
pub mod Payloads

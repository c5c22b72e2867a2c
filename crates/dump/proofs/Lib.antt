pub mod Goes
pub mod Judges

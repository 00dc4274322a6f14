-- The definitions of the tool that names the reason of a refusal (02, P5).
pub mod Reason
pub mod Framing
pub mod Hello
pub mod Contents
pub mod Opening
pub mod Why

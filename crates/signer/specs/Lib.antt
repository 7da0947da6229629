-- RFC 8554's key making and signing at document 01's one parameter set, with the private strings of Appendix A; and what is promised of a list of signings.
pub mod Strings
pub mod Nodes
pub mod Signature
pub mod Answers
pub mod Signings

pub mod Ctl

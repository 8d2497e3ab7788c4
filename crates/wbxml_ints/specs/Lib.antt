pub mod Multibyte

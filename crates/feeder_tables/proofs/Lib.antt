-- Of this program alone.
mod Asking

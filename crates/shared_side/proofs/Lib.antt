mod Rung
mod Taking
mod Polling
mod Handing

mod Closing
mod Timely

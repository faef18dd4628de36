mod Worked
mod Calls

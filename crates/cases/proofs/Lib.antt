mod Worked
mod Joining

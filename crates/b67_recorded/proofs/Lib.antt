mod Taking
mod Passing
mod Copying
mod Knowing
mod OverFiles

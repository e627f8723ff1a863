mod Going
mod Places
mod Rising
mod Roots

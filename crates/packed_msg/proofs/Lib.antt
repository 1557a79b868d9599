mod Read
mod Left

mod Finding
mod OnCards

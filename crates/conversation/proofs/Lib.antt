mod Exchanging
mod Responding
mod HearingOn

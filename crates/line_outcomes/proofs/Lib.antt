mod Shortages
mod Agreeing
mod Unprepared
mod Prepared
mod Ending

mod Keeping
mod ReadLaws

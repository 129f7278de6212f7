mod Firsts
mod Answering
mod Walking
mod Staged

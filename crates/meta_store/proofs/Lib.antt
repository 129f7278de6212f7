mod PlaceLaws
mod StoreLaws

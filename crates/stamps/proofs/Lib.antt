mod StampOrder
mod PlaceLaws
mod TextLaws

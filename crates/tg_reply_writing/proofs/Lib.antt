mod HeadLines
mod Fronts

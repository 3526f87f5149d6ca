mod TextLengths
mod NodeLengths
mod NodeLinks
mod LinkedNodes

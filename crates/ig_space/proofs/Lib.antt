mod Sides
mod RawText
mod Cells
mod Parts
mod Decimals
mod NameParts
mod Listed
mod Hulls

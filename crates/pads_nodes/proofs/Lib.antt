mod NodeLaws
mod Rows
mod Zips

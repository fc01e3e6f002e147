mod UnionLaws
mod TableLaws
mod NumberedLaws
mod LinkLaws
mod ShownLaws

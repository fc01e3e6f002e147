pub mod EdgeGraph
pub mod Unions
pub mod Numbers
pub mod LinkEdges
pub mod Laws

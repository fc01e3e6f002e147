mod Vectors
mod Written
mod Planes
mod MipVolumes

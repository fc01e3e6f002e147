mod CutChunks
mod TaskRuns
mod MipRuns
mod WantedOutputs

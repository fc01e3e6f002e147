-- The error of a worker, by that of its store.
use Rattle.ig_defs.specs.declared.error.StoreError.{StoreError}
use Rattle.ig_defs.specs.declared.error.StoreError.TheVariants as store
use Rattle.ig_worker.specs.declared.error.WorkerError.{WorkerError}
use Rattle.ig_worker.specs.declared.error.WorkerError.TheVariants.{Failed, Memory}

abbrev pub worker_error_of : StoreError → WorkerError
worker_error_of store.Failed = Failed
worker_error_of store.Memory = Memory

-- The history of a traced file: a log of its acts, and what its buckets hold of what the log leaves
pub mod BucketLaws
pub mod Buckets
pub mod History
pub mod Log
pub mod LogLaws
pub mod Told

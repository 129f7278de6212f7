pub mod Replicas
